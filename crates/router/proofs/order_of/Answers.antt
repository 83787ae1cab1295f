-- `router::order_of` meets its contract: part by part.
use mathlib.Core.Path.{refl}
use Rattle.values.specs.Values.{job_of}
use Rattle.router.proofs.order_of.Goals as goal

pub returns : goal.returns
unfolding job_of
returns c =
    record { admitted = c.requires.0.admitted; layout = refl; method = c.method_of.ensures; shelf = c.requires.1; digits = c.digits_of.ensures }
