-- Steps followed one behind the other: what the first leave behind is where the others start.
use Rattle.std.proofs.Common.{ℕ, suc, ◌+◌, ◌-◌, ◌<◌, ◌≡◌, Option, None, List, [], ◌∷◌, ◌++◌, length, get_or, set, take, drop, replicate}
use Rattle.std.proofs.Common.{refl, sym, ap, ◌∙◌, subst, append_assoc, length-append, add-one, arith}
use mathlib.Core.List.{append-nil}
use lib.ListN.{length-set, replicate-append-replicate, take-append-drop}
use Rattle.rules.specs.declared.Direction.{Direction}
use Rattle.rules.specs.declared.Pick.{Pick}
use Rattle.rules.specs.declared.Run.{Run}
use Rattle.rules.specs.Walks.{Walk}
use Rattle.flood.specs.Points.{next_by}
use Rattle.visits.specs.Visited.{steps_of_run, walk_of_runs}
use Rattle.visits.specs.Numbered.{spot_after, StaysIn, picks_along, taken_along, Ahead, Followed}
use Rattle.visits.proofs.Runs.{walk_append, walk_more}

-- two parts of a walk: where it ends
after_append : (n : ℕ) (ds es : Walk) → spot_after n (ds ++ es) ≡ spot_after (spot_after n ds) es
after_append n [] es = refl
after_append n (d ∷ ds) es = after_append (next_by d n) ds es

-- what it leaves of the list
taken_append : (n : ℕ) (ds es : Walk) (noted : List (Option Pick)) → taken_along n (ds ++ es) noted ≡ taken_along (spot_after n ds) es (taken_along n ds noted)
taken_append n [] es noted = refl
taken_append n (d ∷ ds) es noted = taken_append (next_by d n) ds es (set noted (next_by d n) None)

-- the picks that it meets
picks_append : (n : ℕ) (ds es : Walk) (noted : List (Option Pick)) → picks_along n (ds ++ es) noted ≡ picks_along n ds noted ++ picks_along (spot_after n ds) es (taken_along n ds noted)
picks_append n [] es noted = refl
picks_append n (d ∷ ds) es noted =
    let i = next_by d n in
    rw (picks_append i ds es (set noted i None), append_assoc)

-- a walk that stays in the store does so with its first part
stays_first : (n : ℕ) (ds es : Walk) → StaysIn n (ds ++ es) → StaysIn n ds
stays_first n [] [] s = s
stays_first n [] (e ∷ es) s = s.0
stays_first n (d ∷ ds) es s = (s.0, stays_first (next_by d n) ds es s.1)

-- and with the other
stays_then : (n : ℕ) (ds es : Walk) → StaysIn n (ds ++ es) → StaysIn (spot_after n ds) es
stays_then n [] es s = s
stays_then n (d ∷ ds) es s = stays_then (next_by d n) ds es s.1

-- the list keeps its length
taken_length : (n : ℕ) (ds : Walk) (noted : List (Option Pick)) → length (taken_along n ds noted) ≡ length noted
taken_length n [] noted = refl
taken_length n (d ∷ ds) noted = taken_length (next_by d n) ds (set noted (next_by d n) None) ∙ length-set noted (next_by d n) None

-- no step yet
pub followed_none : (noted : List (Option Pick)) (order : List Pick) (at : ℕ) → Followed [] noted order at noted order at
followed_none noted order at = record { end = refl; left = refl; met = sym (append-nil order) }

module _ {ds : Walk} {noted₀ : List (Option Pick)} {order₀ : List Pick} {at₀ : ℕ} {noted : List (Option Pick)} {order : List Pick} {at : ℕ} (f : Followed ds noted₀ order₀ at₀ noted order at) where
  -- more steps behind these
  followed_more : {es : Walk} {noted₂ : List (Option Pick)} {order₂ : List Pick} {at₂ : ℕ} → Followed es noted order at noted₂ order₂ at₂ → Followed (ds ++ es) noted₀ order₀ at₀ noted₂ order₂ at₂
  followed_more {es} g =
      record {
        end = g.end ∙ ap (λ (n : ℕ). spot_after n es) f.end ∙ sym (after_append at₀ ds es);
        left = g.left ∙ rw (f.end, f.left) (sym (taken_append at₀ ds es noted₀));
        met = g.met ∙ rw (f.met, f.end, f.left, append_assoc, picks_append at₀ ds es noted₀);
      }

  -- the list keeps its length
  pub followed_length : length noted ≡ length noted₀
  followed_length = ap length f.left ∙ taken_length at₀ ds noted₀

  -- the next steps can be followed
  ahead_next : (es fs : Walk) → Ahead ((ds ++ es) ++ fs) noted₀ order₀ at₀ → Ahead es noted order at
  ahead_next es fs a =
      let all : picks_along at₀ ((ds ++ es) ++ fs) noted₀
      ≡ (picks_along at₀ ds noted₀ ++ picks_along at es noted) ++ picks_along (spot_after at₀ (ds ++ es)) fs (taken_along at₀ (ds ++ es) noted₀) =
      picks_append at₀ (ds ++ es) fs noted₀
      ∙ ap (λ (l : List Pick). l ++ picks_along (spot_after at₀ (ds ++ es)) fs (taken_along at₀ (ds ++ es) noted₀)) (picks_append at₀ ds es noted₀ ∙ rw (← f.end, ← f.left) refl)
      in
      let before = picks_along at₀ ds noted₀ in
      let next = picks_along at es noted in
      let behind = picks_along (spot_after at₀ (ds ++ es)) fs (taken_along at₀ (ds ++ es) noted₀) in
      record {
        size = followed_length ∙ a.size;
        within = subst (λ (n : ℕ). StaysIn n es) (sym f.end) (stays_then at₀ ds es (stays_first at₀ (ds ++ es) fs a.within));
        room = omega (arith, a.room, ap length f.met, ap length all, length-append (before ++ next) behind, length-append before next, length-append order₀ before);
      }

-- the steps of a run: the next one can be followed, and then one more has been
module _ (d : Direction) (n i : ℕ)
    {noted₀ : List (Option Pick)} {order₀ : List Pick} {at₀ : ℕ} {noted : List (Option Pick)} {order : List Pick} {at : ℕ} (f : Followed (replicate i d) noted₀ order₀ at₀ noted order at) where
  pub run_next : i < n → Ahead (replicate n d) noted₀ order₀ at₀ → Ahead (d ∷ []) noted order at
  run_next l a =
      let whole : i + 1 + (n - suc i) ≡ n = omega arith in
      let parts : (replicate i d ++ (d ∷ [])) ++ replicate (n - suc i) d ≡ replicate n d =
      ap (λ (w : Walk). w ++ replicate (n - suc i) d) (replicate-append-replicate i 1 d) ∙ replicate-append-replicate (i + 1) (n - suc i) d ∙ ap (λ (k : ℕ). replicate k d) whole
      in
      ahead_next f (d ∷ []) (replicate (n - suc i) d) (subst (λ (w : Walk). Ahead w noted₀ order₀ at₀) (sym parts) a)

  pub run_more : {noted₂ : List (Option Pick)} {order₂ : List Pick} {at₂ : ℕ} → Followed (d ∷ []) noted order at noted₂ order₂ at₂ → Followed (replicate (i + 1) d) noted₀ order₀ at₀ noted₂ order₂ at₂
  run_more {noted₂} {order₂} {at₂} g = subst (λ (w : Walk). Followed w noted₀ order₀ at₀ noted₂ order₂ at₂) (replicate-append-replicate i 1 d) (followed_more f g)

-- the steps of runs: those of the next run can be followed, and then its steps have been, too
module _ (rs : List Run) (i : ℕ) (r₀ : Run) (l : i < length rs)
    {noted₀ : List (Option Pick)} {order₀ : List Pick} {at₀ : ℕ} {noted : List (Option Pick)} {order : List Pick} {at : ℕ}
    (f : Followed (walk_of_runs (take i rs)) noted₀ order₀ at₀ noted order at) where
  -- the steps of one run more
  more : walk_of_runs (take i rs) ++ steps_of_run (get_or rs i r₀) ≡ walk_of_runs (take (i + 1) rs)
  more = sym (ap (λ (k : ℕ). walk_of_runs (take k rs)) (add-one i) ∙ walk_more rs i r₀ l)

  pub runs_next : Ahead (walk_of_runs rs) noted₀ order₀ at₀ → Ahead (steps_of_run (get_or rs i r₀)) noted order at
  runs_next a =
      let rest = walk_of_runs (drop (i + 1) rs) in
      let parts : (walk_of_runs (take i rs) ++ steps_of_run (get_or rs i r₀)) ++ rest ≡ walk_of_runs rs =
      ap (λ (w : Walk). w ++ rest) more ∙ sym (walk_append (take (i + 1) rs) (drop (i + 1) rs)) ∙ ap walk_of_runs (take-append-drop (i + 1) rs)
      in
      ahead_next f (steps_of_run (get_or rs i r₀)) rest (subst (λ (w : Walk). Ahead w noted₀ order₀ at₀) (sym parts) a)

  pub runs_more : {noted₂ : List (Option Pick)} {order₂ : List Pick} {at₂ : ℕ} → Followed (steps_of_run (get_or rs i r₀)) noted order at noted₂ order₂ at₂
      → Followed (walk_of_runs (take (i + 1) rs)) noted₀ order₀ at₀ noted₂ order₂ at₂
  runs_more {noted₂} {order₂} {at₂} g = subst (λ (w : Walk). Followed w noted₀ order₀ at₀ noted₂ order₂ at₂) more (followed_more f g)
