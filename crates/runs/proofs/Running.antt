-- Equal steps run together: a walk is its first run, and behind it the runs of the other steps.
use Rattle.std.proofs.Common.{suc, ◌+◌, ◌≡◌, Bool, true, false, eqb, List, [], ◌∷◌, drop, refl, sym, ap, ◌∙◌, subst, one-add, ◌<◌, ◌≤◌, length, get_or, arith}
use borrow.Author.Tests.{eqb-true, eqb-false, eq-eqb, ne_eqb}
use Rattle.rules.specs.declared.Direction.{Direction}
use Rattle.rules.specs.declared.Direction.TheVariants.{Back, Front, Left, Right}
use Rattle.rules.specs.declared.Run.{Run}
use Rattle.rules.specs.Walks.{Walk, letter_rank}
use Rattle.rules.specs.Sheet.{add_step, runs_of}
use Rattle.runs.specs.Leading.{same_way, leading}

-- no two steps have the same rank
pub rank_same : (d e : Direction) → letter_rank d ≡ letter_rank e → d ≡ e
rank_same Back Back h = refl
rank_same Back Front h = cc
rank_same Back Left h = cc
rank_same Back Right h = cc
rank_same Front Back h = cc
rank_same Front Front h = refl
rank_same Front Left h = cc
rank_same Front Right h = cc
rank_same Left Back h = cc
rank_same Left Front h = cc
rank_same Left Left h = refl
rank_same Left Right h = cc
rank_same Right Back h = cc
rank_same Right Front h = cc
rank_same Right Left h = cc
rank_same Right Right h = refl

-- a step leads its own way
same_self : (d : Direction) → same_way d d ≡ true
same_self d = eq-eqb (letter_rank d) (letter_rank d) refl

-- one step more in front of a run
abbrev Split : Direction → Walk → Type 0
Split d walk = runs_of (d ∷ walk) ≡ record { direction = d; steps = suc (leading d walk) } ∷ runs_of (drop (leading d walk) walk)

-- where the next step leads the same way the run grows
grows : (d : Direction) (walk : Walk) → Split d walk → Split d (d ∷ walk)
grows d walk h =
    let n : 1 + leading d walk ≡ suc (leading d walk) = one-add (leading d walk) in
    ap (add_step d) h ∙ rw (same_self d, n)

-- a step, then those behind it that lead the same way, and the runs of the others
split : (d : Direction) (walk : Walk) → Split d walk
split d [] = refl
split d (e ∷ walk) = go (same_way d e) refl (split d walk) (split e walk)
  where
    go : (b : Bool) → same_way d e ≡ b → Split d walk → Split e walk → Split d (e ∷ walk)
    go true q h k = subst (λ (c : Direction). Split d (c ∷ walk)) (rank_same d e (sym (eqb-true (letter_rank e) (letter_rank d) q))) (grows d walk h)
    go false q h k =
        let other : eqb (letter_rank d) (letter_rank e) ≡ false = ne_eqb (letter_rank d) (letter_rank e) (λ s. eqb-false (letter_rank e) (letter_rank d) q (sym s)) in
        ap (add_step d) k ∙ rw (other, q) (ap (λ (l : List Run). record { direction = d; steps = 1 } ∷ l) (sym k))

-- the first run, and the runs of the steps behind it
pub runs_first : (d : Direction) (walk : Walk) → runs_of (d ∷ walk) ≡ record { direction = d; steps = leading d (d ∷ walk) } ∷ runs_of (drop (leading d (d ∷ walk)) (d ∷ walk))
runs_first d walk =
    let n : 1 + leading d walk ≡ suc (leading d walk) = one-add (leading d walk) in
    rw (same_self d, n) (split d walk)

-- steps whose first leads that way: their first run, and the runs of the steps behind it
pub runs_next : (walk : Walk) (d : Direction) → 0 < length walk → d ≡ get_or walk 0 d → runs_of walk ≡ record { direction = d; steps = leading d walk } ∷ runs_of (drop (leading d walk) walk)
runs_next [] d h e = absurd (omega arith)
runs_next (c ∷ walk) d h e = subst (λ b. runs_of (c ∷ walk) ≡ record { direction = b; steps = leading b (c ∷ walk) } ∷ runs_of (drop (leading b (c ∷ walk)) (c ∷ walk))) (sym e) (runs_first c walk)

-- which has a step
pub leading_some : (walk : Walk) (d : Direction) → 0 < length walk → d ≡ get_or walk 0 d → 1 ≤ leading d walk
leading_some [] d h e = absurd (omega arith)
leading_some (c ∷ walk) d h e = subst (λ b. 1 ≤ leading b (c ∷ walk)) (sym e) (rw (same_self c) (omega arith))
