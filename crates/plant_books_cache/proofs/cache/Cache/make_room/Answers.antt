use Rattle.std.proofs.Common.{◌∙◌}
use Rattle.plant_books_cache.proofs.cache.Cache.make_room.Goals as goal

pub loop-preserved : goal.loop-preserved
loop-preserved c =
    record {
      kept = λ there h. c.drop_last.ensures.kept there (c.loop.invariant.kept there h);
      limit = c.drop_last.ensures.limit ∙ c.loop.invariant.limit;
    }
