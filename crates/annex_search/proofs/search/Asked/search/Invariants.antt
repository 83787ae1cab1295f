-- `annex_search::search::Asked::search` meets its contract: after n plans, what is kept is the first of the best of the first n.
use Rattle.rules.specs.Jobs.{Job}
use Rattle.annex_search.specs.Searched.{Searching, KeptTo}
use Rattle.annex_search.proofs.search.Asked.search.Given as goal

abbrev pub invariant-loop-n : goal.invariant-loop-n
invariant-loop-n l = (job : Job) → Searching job l.fn.self → KeptTo job l.best l.n
