use Rattle.plant_books_cache.proofs.cache.Cache.keep.Goals as goal

pub returns-then-has_room_for-clause-kept : goal.returns-then-has_room_for-clause-kept
returns-then-has_room_for-clause-kept c = λ there is h. c.put.ensures.kept there is (c.if-has_room_for.ensures.kept there h)

pub returns-else-has_room_for-clause-kept : goal.returns-else-has_room_for-clause-kept
returns-else-has_room_for-clause-kept c = λ there is h. c.if-has_room_for.ensures.kept there h
