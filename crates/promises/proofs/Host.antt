-- The planning host's number tells its reply, and lent space that suffices is not refused.
use Prim.Native.Nat.{ℕ, ◌+◌, ◌≤◌, ◌<◌}
use native.Mathlib.Omega.{arith}
use mathlib.Core.Path.{◌≡◌, refl, sym, ◌∙◌, ap}
use mathlib.Core.Logic.{◌↔◌}
use mathlib.Core.List.{List, [], ◌∷◌}
use lib.ListN.{length, length-replicate}
use Rattle.rules.specs.declared.Refusal.{Refusal}
use Rattle.rules.specs.declared.Refusal.TheVariants.{WorkArea, NotAJobFile, LayoutBounds, StockBounds, CellTwice, HoursBounds, ListBounds, ArticleTwice, TooHeavy, ShortOfStock, SheetSpace, PageSpace}
use Rattle.rules.specs.Answers.{Reply}
use Rattle.std.specs.declared.result.Result.TheVariants.{Ok, Err}
use Rattle.rules.specs.Lists.{nth}
use Rattle.rules.specs.Refusals.{number_of, work_limit}
use Rattle.rules.specs.Sheet.{sheet_text}
use Rattle.rules.specs.Answers.{reply_length, sheet_limit, answer, host_answer, host_number}
use Rattle.planner.proofs.Space.{sheet_suffices, served_length}
use Rattle.promises.specs.Causes.{OfJob, FirstCause}
use Rattle.promises.specs.Calls.{ServedCall, host_work, host_gets, HostCall}
use Rattle.promises.proofs.Table.{job_file_read, NoCause, refused_for, refused_by, served_for, served_by, above_admitted}
use Rattle.promises.proofs.Shown.{refused_call, served_call}

-- a refusal's number tells the refusal
abbrev by_number : List Refusal
by_number = NotAJobFile ∷ LayoutBounds ∷ StockBounds ∷ CellTwice ∷ ListBounds ∷ ArticleTwice ∷ TooHeavy ∷ ShortOfStock ∷ SheetSpace ∷ WorkArea ∷ PageSpace ∷ HoursBounds ∷ []

numbered : (r : Refusal) → nth by_number (number_of r) WorkArea ≡ r
numbered WorkArea = refl
numbered NotAJobFile = refl
numbered LayoutBounds = refl
numbered StockBounds = refl
numbered CellTwice = refl
numbered HoursBounds = refl
numbered ListBounds = refl
numbered ArticleTwice = refl
numbered TooHeavy = refl
numbered ShortOfStock = refl
numbered SheetSpace = refl
numbered PageSpace = refl

pub refusal_number_tells : (q r : Refusal) → number_of q ≡ number_of r → q ≡ r
refusal_number_tells q r e = sym (numbered q) ∙ ap (λ n. nth by_number n WorkArea) e ∙ numbered r

-- a host's number tells the reply, where byte counts are at most 16,384
pub reply_told : (p q : Reply) → reply_length p ≤ sheet_limit → reply_length q ≤ sheet_limit → host_number p ≡ host_number q → p ≡ q
reply_told (Ok m) (Ok n) h k e = ap Ok e
reply_told (Ok m) (Err r) h k e = absurd (omega arith)
reply_told (Err q) (Ok n) h k e = absurd (omega arith)
reply_told (Err q) (Err r) h k e = ap Err (refusal_number_tells q r (omega arith))

module _ (bytes sheet work : List ℕ) where
  abbrev number : ℕ
  number = host_number (answer bytes sheet work).reply

  -- the number of a refusal is that of a refused call
  pub refusal_told : (r : Refusal) → number ≡ 65536 + number_of r → (answer bytes sheet work).reply ≡ Err r
  refusal_told r e = reply_told (answer bytes sheet work).reply (Err r) (served_length bytes sheet work) (omega arith) e

  pub refusal_number : (r : Refusal) → (number ≡ 65536 + number_of r) ↔ FirstCause r bytes sheet work
  refusal_number r = (λ e. refused_by bytes sheet work r (refusal_told r e), λ f. ap (λ a. host_number a.reply) (refused_for bytes sheet work r f))

  -- a number below 65,536 is the byte count of a served call
  pub count_told : number < 65536 → (answer bytes sheet work).reply ≡ Ok number
  count_told l = go (answer bytes sheet work).reply l
    where
      go : (q : Reply) → host_number q < 65536 → q ≡ Ok (host_number q)
      go (Ok n) h = refl
      go (Err r) h = absurd (omega arith)

  pub count_number : (number < 65536) ↔ NoCause bytes sheet work
  count_number = (
    λ l. served_by bytes sheet work number (count_told l),
    λ n. below (answer bytes sheet work).reply (served_length bytes sheet work) (ap (λ a. a.reply) (served_for bytes sheet work n).2),
  )
    where
      below : {n : ℕ} (q : Reply) → reply_length q ≤ sheet_limit → q ≡ Ok n → host_number q < 65536
      below (Ok m) h e = omega arith
      below (Err r) h e = let z : ◌≡◌ {A = ℕ} 0 1 = cc in absurd (omega arith)

  pub count_served : number < 65536 → OfJob bytes (λ job. (number ≡ length (sheet_text job)) × ServedCall job sheet work (answer bytes sheet work))
  count_served l =
      let (job, file, s) = served_call bytes sheet work number (count_told l) in
      (job, file, (sym (ap reply_length (count_told l)) ∙ s.count, s))

  -- 16,384 bytes of sheet space suffice
  pub space_suffices : sheet_limit ≤ length sheet → (answer bytes sheet work).reply ≡ Err SheetSpace → ⊥
  space_suffices h e =
      let f = refused_by bytes sheet work SheetSpace e in
      let (job, file, short) = f.applies in
      omega (arith, sheet_suffices job (above_admitted bytes sheet work f.none_above job ((job_file_read bytes job).1 file)))

  -- and so do 32,768 numbers of work area
  pub work_suffices : work_limit ≤ length work → (answer bytes sheet work).reply ≡ Err WorkArea → ⊥
  work_suffices h e = omega (arith, (refused_by bytes sheet work WorkArea e).applies)

-- the planning host's call
pub host_number_lem : (bytes sheet : List ℕ) → HostCall bytes sheet
unfolding host_answer
host_number_lem bytes sheet =
    record {
      refusal = refusal_number bytes sheet host_work;
      refused = λ r e. refused_call bytes sheet host_work r (refusal_told bytes sheet host_work r e);
      serving = count_number bytes sheet host_work;
      served = count_served bytes sheet host_work;
    }

-- its number tells the reply
pub host_number_tells : (bytes others sheet space : List ℕ) → host_gets bytes sheet ≡ host_gets others space → (host_answer bytes sheet).reply ≡ (host_answer others space).reply
unfolding host_answer
host_number_tells bytes others sheet space e =
    reply_told (answer bytes sheet host_work).reply (answer others space host_work).reply (served_length bytes sheet host_work) (served_length others space host_work) e

-- refusals 10 and 9 do not occur
pub host_has_space : (bytes sheet : List ℕ) → (host_answer bytes sheet).reply ≡ Err WorkArea → ⊥
unfolding host_answer
host_has_space bytes sheet e = work_suffices bytes sheet host_work (omega (arith, length-replicate {A = ℕ} work_limit 0)) e

pub host_sheet_suffices : (bytes sheet : List ℕ) → sheet_limit ≤ length sheet → (host_answer bytes sheet).reply ≡ Err SheetSpace → ⊥
unfolding host_answer
host_sheet_suffices bytes sheet h e = space_suffices bytes sheet host_work h e
