-- Out of service (ISA-18.2, IEC 62682): the third kind of suppression, after shelving and suppression by design.
use Rattle.std.specs.Prelude.{List, Option, option_map, ℕ}
use Rattle.plant_model.specs.{Histories.{Said, latest, of_key, said_as, still}, Kinds.{says}, declared.call.{Call.{Call}, Request.{Request}}}
use Rattle.plant_types.specs.Names.{Name, same_name}

-- when, by whom and why an alarm was removed from service
pub record Outage : Type 0 where
  pub from : ℕ
  pub person : Name
  pub words : Name

abbrev pub outage_as : Name → ℕ → Name × Said Name → Name × Said Outage
outage_as p t e = (e.0, said_as (λ words. record { from = t; person = p; words = words }) e.1)

-- what an entry states about the alarm's removal from service: that one begins, or that it is over
abbrev pub said_of_outage : Name → Name → ℕ → Request → Option (Said Outage)
said_of_outage a p t r = of_key same_name a (option_map (outage_as p t) (says r).outage)

-- the removal that stands: none if the alarm was placed in service since
abbrev pub outage : List Call → Name → Option Outage
outage h a = still (latest (λ c before. said_of_outage a c.person c.moment c.request) h)
