-- The two jobs whose sheets are printed.
use Rattle.std.specs.Prelude.{ℕ, List, [], ◌∷◌}
use Rattle.rules.specs.declared.Policy.TheVariants.{Exact, Midpoint}
use Rattle.rules.specs.declared.Posts.TheVariants.{NoPosts}
use Rattle.rules.specs.declared.Direction.{Direction}
use Rattle.rules.specs.declared.Direction.TheVariants.{Back, Front, Left, Right}
use Rattle.rules.specs.declared.Run.{Run}
use Rattle.rules.specs.Hours.{NoHours}
use Rattle.rules.specs.Jobs.{Job}
use Rattle.rules.specs.Examples.{stocked, ◌⨯◌, alpha}

-- the job that document 01 walks through: one of article 9 from a store of two aisles with three cells
unfoldable pub worked_job : Job
worked_job = alpha ((9 ⨯ 1) ∷ []) Exact

-- a job whose plan enters from the back: five records and three lines, in a store of three aisles with two cells
unfoldable pub top_job : Job
top_job =
    record {
      layout = record { aisles = 3; cells = 2; front = 1; pitch = 3; back = 2; width = 1; depot = 1; posts = NoPosts };
      policy = Midpoint;
      stock = stocked 1 2 5 1 ∷ stocked 3 2 4 2 ∷ stocked 2 2 3 1 ∷ stocked 1 1 5 2 ∷ stocked 3 1 3 2 ∷ [];
      hours = NoHours;
      lines = (3 ⨯ 3) ∷ (5 ⨯ 1) ∷ (4 ⨯ 1) ∷ [];
    }

-- a run, told by its direction and its steps
abbrev pub run_of : Direction × ℕ → Run
run_of r = record { direction = r.0; steps = r.1 }

-- the walk of the first: R, B, F, L, a step each
abbrev pub worked_walk : List Run
worked_walk = run_of (Right, 1) ∷ run_of (Back, 1) ∷ run_of (Front, 1) ∷ run_of (Left, 1) ∷ []

-- the walk of the second
abbrev pub top_walk : List Run
top_walk =
    run_of (Back, 3) ∷ run_of (Right, 1) ∷ run_of (Front, 1) ∷ run_of (Back, 1) ∷ run_of (Right, 1) ∷ run_of (Front, 3) ∷ run_of (Left, 2) ∷ []
