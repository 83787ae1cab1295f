-- An array that is mapped, as a list.
use Rattle.std.proofs.Common.{ℕ, ◌≡◌, ◌∙◌, sym, List, map, length}
use Rattle.std.proofs.lemmas.List.{length-map, ext_get_or, get_or-map}
use Rattle.std.specs.Fn.{Called}
use Rattle.std.specs.Array.{IsMapOf}
use denote.Param.Members.{Mut}

-- where each call gives what h gives, the array of the results is the list mapped by h
pub mapped : {F A B : Type 0} (g : Mut F (A × Unit {0}) B) (h : A → B) (d : A) {f : F} {xs : List A} {ys : List B} {n : ℕ}
    → ((p : F) (x : A) (y : B) (q : F) → Called g p (x, tt) y q → y ≡ h x) → length xs ≡ n → IsMapOf g f xs ys n → ys ≡ map h xs
mapped g h d {xs = xs} {ys = ys} calls long m =
    ext_get_or (h d) ys (map h xs) (m.long ∙ sym (length-map xs h ∙ long))
    (λ i l. let c = m.at i d (h d) (rw m.long at l) in calls _ _ _ _ c.2 ∙ sym (get_or-map h xs i d (h d) (rw (m.long, ← long) at l)))
