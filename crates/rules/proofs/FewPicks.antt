-- No job has more than 255 picks: each takes at least one piece, and the pieces are at most the list's, whose weight bounds them.
use Prim.Native.Nat.{ℕ, ◌+◌, ◌-◌, min, ◌≤◌}
use native.Mathlib.Nat.{add-mul, le-mul_of_pos_right}
use native.Mathlib.Omega.{arith}
use mathlib.Core.Path.{◌≡◌, refl}
use mathlib.Core.List.{List, [], ◌∷◌}
use mathlib.Core.Bool.{Bool, true, false, cond}
use lib.Dec.{eqb, ltb}
use lib.ListN.{length}
use borrow.Author.Tests.{ltb-true}
use Rattle.rules.specs.declared.StockRecord.{StockRecord}
use Rattle.rules.specs.declared.OrderLine.{OrderLine}
use Rattle.rules.specs.declared.Pick.{Pick}
use Rattle.rules.specs.Lists.{sum_of}
use Rattle.rules.specs.Jobs.{Job}
use Rattle.rules.specs.Plans.{Plan}
use Rattle.rules.specs.Refusals.{weight, Admitted}
use Rattle.rules.specs.Picks.{lack_of, less_of, taken, picks_from, passed_records, picks_of}

-- how many pieces the lines lack in all
abbrev pieces : List OrderLine → ℕ
pieces lines = sum_of (λ (l : OrderLine). l.quantity) lines

-- a list of so much weight asks for less than that in all
pieces_few : (lines : List OrderLine) → sum_of (λ (l : OrderLine). l.quantity) lines + 1 ≤ weight lines
unfolding weight
pieces_few [] = omega arith
pieces_few (l ∷ ls) =
    let rest = pieces_few ls in
    omega (arith, add-mul l.quantity 1 (weight ls), le-mul_of_pos_right {m = weight ls} l.quantity (omega arith))

-- with n fewer lacking of an article, the lines lack so many pieces fewer, or all that they lacked of it
less_pieces : (a n : ℕ) (lacking : List OrderLine) → pieces (less_of a n lacking) + min n (lack_of lacking a) ≤ pieces lacking
unfolding less_of lack_of
less_pieces a n [] = omega arith
less_pieces a n (l ∷ ls) = go (eqb l.article a) (less_pieces a n ls)
  where
    go : (b : Bool) → pieces (less_of a n ls) + min n (lack_of ls a) ≤ pieces ls
        → cond b (l.quantity - n) l.quantity + pieces (less_of a n ls) + min n (cond b l.quantity 0 + lack_of ls a) ≤ l.quantity + pieces ls
    go true h = omega arith
    go false h = omega arith

-- every pick takes a piece that a line lacked
picks_pieces : (lacking : List OrderLine) (rs : List StockRecord) → length (picks_from lacking rs) ≤ sum_of (λ (l : OrderLine). l.quantity) lacking
unfolding taken
picks_pieces lacking [] = omega arith
picks_pieces lacking (r ∷ rs) = go (ltb 0 n) refl (picks_pieces (less_of r.article n lacking) rs)
  where
    n : ℕ
    n = taken lacking r

    picks : List Pick
    picks = picks_from (less_of r.article n lacking) rs

    go : (b : Bool) → ltb 0 n ≡ b → length picks ≤ pieces (less_of r.article n lacking)
        → length (cond b (record { aisle = r.aisle; cell = r.cell; article = r.article; quantity = n } ∷ picks) picks) ≤ pieces lacking
    go true e h = omega (arith, ltb-true 0 n e, less_pieces r.article n lacking)
    go false e h = omega (arith, less_pieces r.article n lacking)

-- so there are at most 255
pub few_picks : (job : Job) → Admitted job → (plan : Plan) → length (picks_of job plan) ≤ 255
unfolding picks_of
few_picks job ok plan = omega (arith, picks_pieces job.lines (passed_records job plan), pieces_few job.lines, ok.light)
