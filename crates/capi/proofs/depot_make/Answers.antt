-- `capi::depot_make` meets its contract: the depot's own, by the record's command. Assumes nothing.
use Rattle.capi.proofs.depot_make.Goals as goal

pub returns-in_default : goal.returns-in_default
returns-in_default c = rw (← c.in_default.ensures) (c.from.ensures _)
