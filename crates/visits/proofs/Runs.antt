-- The steps of runs: those of a walk's runs are its steps; one run behind others.
use Prim.Native.Nat.{ℕ, suc, ◌<◌}
use mathlib.Core.Path.{◌≡◌, refl, sym, ap, ◌∙◌}
use mathlib.Core.List.{List, [], ◌∷◌, ◌++◌, append_assoc, append-nil}
use mathlib.Core.Bool.{Bool, true, false, cond}
use lib.Dec.{eqb}
use lib.ListN.{length, get_or, take, replicate}
use lib.Seq.{take-suc}
use borrow.Author.Tests.{eqb-true}
use Rattle.rules.specs.declared.Direction.{Direction}
use Rattle.rules.specs.declared.Direction.TheVariants.{Back, Front, Left, Right}
use Rattle.rules.specs.declared.Run.{Run}
use Rattle.rules.specs.Walks.{Walk, letter_rank}
use Rattle.rules.specs.Sheet.{add_step, runs_of}
use Rattle.visits.specs.Visited.{steps_of_run, walk_of_runs}

-- no two steps have the same rank
same_direction : (d e : Direction) → letter_rank d ≡ letter_rank e → d ≡ e
same_direction d e h = sym (back d) ∙ ap ranked h ∙ back e
  where
    ranked : ℕ → Direction
    ranked n = cond (eqb n 0) Back (cond (eqb n 1) Front (cond (eqb n 2) Left Right))

    back : (c : Direction) → ranked (letter_rank c) ≡ c
    back Back = refl
    back Front = refl
    back Left = refl
    back Right = refl

-- a step in front of runs is one in front of their steps
steps_add : (d : Direction) (rs : List Run) → walk_of_runs (add_step d rs) ≡ d ∷ walk_of_runs rs
unfolding walk_of_runs steps_of_run
steps_add d [] = refl
steps_add d (r ∷ rs) = go (eqb (letter_rank d) (letter_rank r.direction)) refl
  where
    go : (b : Bool) → eqb (letter_rank d) (letter_rank r.direction) ≡ b
        → walk_of_runs (cond b (record { direction = d; steps = suc r.steps } ∷ rs) (record { direction = d; steps = 1 } ∷ r ∷ rs)) ≡ d ∷ walk_of_runs (r ∷ rs)
    go true e = ap (λ c. d ∷ (replicate r.steps c ++ walk_of_runs rs)) (same_direction d r.direction (eqb-true (letter_rank d) (letter_rank r.direction) e))
    go false e = refl

-- the runs of a walk have its steps
pub walk_of_runs_lem : (w : Walk) → walk_of_runs (runs_of w) ≡ w
unfolding walk_of_runs
walk_of_runs_lem [] = refl
walk_of_runs_lem (d ∷ w) = steps_add d (runs_of w) ∙ ap (λ v. d ∷ v) (walk_of_runs_lem w)

-- the steps of runs, one behind the other
pub walk_append : (rs ss : List Run) → walk_of_runs (rs ++ ss) ≡ walk_of_runs rs ++ walk_of_runs ss
unfolding walk_of_runs
walk_append [] ss = refl
walk_append (r ∷ rs) ss = rw (walk_append rs ss, append_assoc)

-- one run more
pub walk_more : (rs : List Run) (i : ℕ) (d : Run) → i < length rs → walk_of_runs (take (suc i) rs) ≡ walk_of_runs (take i rs) ++ steps_of_run (get_or rs i d)
unfolding walk_of_runs
walk_more rs i d h = ap walk_of_runs (take-suc rs i d h) ∙ walk_append (take i rs) (get_or rs i d ∷ []) ∙ rw append-nil
