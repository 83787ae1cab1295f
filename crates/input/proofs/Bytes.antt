-- Bytes that are known: what two reads took, and where the second stands.
use Rattle.std.proofs.Common.{◌≡◌, ℕ, ◌+◌, ◌≤◌, List, ◌++◌, length, take, sym, ap, ◌∙◌, append_assoc}
use Rattle.std.specs.declared.option.Option.{Option}
use Rattle.std.specs.declared.option.Option.TheVariants.{None, Some}
use Rattle.std.specs.Io.KnownBytes.{Consumes}
use lib.Seq.{take-append-add, take-append-le}

-- what is taken once and again is taken
pub consumes_more : (a b c : Option (List ℕ)) (xs ys : List ℕ) → Consumes a b xs → Consumes b c ys → Consumes a c (xs ++ ys)
consumes_more None b c xs ys p q = tt
consumes_more (Some u) None c xs ys p q = elim p [ ]
consumes_more (Some u) (Some v) None xs ys p q = elim q [ ]
consumes_more (Some u) (Some v) (Some w) xs ys p q = p ∙ ap (λ z. xs ++ z) q ∙ sym (append_assoc xs ys w)

-- a part that stands behind a front: its first bytes are the next ones
pub front_more : (front part rest : List ℕ) (at n : ℕ) → length front ≡ at → n ≤ length part → take (at + n) (front ++ (part ++ rest)) ≡ front ++ take n part
front_more front part rest at n e h =
    ap (λ m. take (m + n) (front ++ (part ++ rest))) (sym e) ∙ take-append-add front (part ++ rest) n ∙ ap (λ z. front ++ z) (take-append-le n part rest h)
