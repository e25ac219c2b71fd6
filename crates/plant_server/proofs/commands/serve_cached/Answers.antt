use Rattle.plant_server.proofs.{Below.{ran_below}, Streamed.{served}}
use Rattle.plant_server.proofs.commands.serve_cached.Goals as goal

pub returns : goal.returns
returns g c =
    served _ _
    (ran_below _ _ _ _ _ _ _ _
    (record { represents = c.new-cached_books.ensures.represents; leaves = c.new-cached_books.ensures.leaves; sound = c.new-cached_books.ensures.sound })
    (record { represents = c.into_books-below.ensures.represents; leaves = c.into_books-below.ensures.leaves; sound = c.into_books-below.ensures.sound })
    c.into_books-below.ensures.clean c.new-cached_books.ensures.clean c.new-cached_books.ensures.stores c.into_books-below.ensures.stores)
    _ _ (λ not honest. not (c.into_books-below.ensures.honest honest))
    _ c.args.service _ c.serve_over-status.ensures
