-- Laws of jobs: a job with a part of its own put back is the job, so that nothing else of it is lost; and a shut aisle holds no article of
-- the list (#106).
use Prim.Native.Nat.{ℕ}
use mathlib.Core.Path.{◌≡◌, refl, sym, ◌∙◌, subst}
use mathlib.Core.Bool.{Bool, true, false, ◌&&◌, and-eq-true_iff, true≢false}
use borrow.Author.Tests.{eqb-true}
use lib.Dec.{eqb}
use Rattle.rules.specs.declared.StockRecord.{StockRecord}
use Rattle.rules.specs.Hours.{is_open}
use Rattle.rules.specs.Jobs.{Job, job_with_posts, job_under, job_with_stock, job_with_hours, open_stock, listed, holds_listed}
use Rattle.rules.proofs.Lists.{any_true}
use Rattle.rules.proofs.Admission.{open_aisle}

pub posts_put_back : (job : Job) → job_with_posts job.layout.posts job ≡ job
posts_put_back job = refl

pub policy_put_back : (job : Job) → job_under job.policy job ≡ job
policy_put_back job = refl

pub stock_put_back : (job : Job) → job_with_stock job.stock job ≡ job
stock_put_back job = refl

pub hours_put_back : (job : Job) → job_with_hours job.hours job ≡ job
hours_put_back job = refl

-- an aisle that holds a listed article is open: it has a record that counts
pub holding_open : (job : Job) (j : ℕ) → holds_listed job j ≡ true → is_open job.hours j ≡ true
unfolding holds_listed
holding_open job j h =
    let (r, m, e) = (any_true (λ (s : StockRecord). eqb s.aisle j && listed job s.article) (open_stock job)).0 h in
    let here = eqb-true r.aisle j ((and-eq-true_iff (eqb r.aisle j) (listed job r.article)).0 e).0 in
    subst (λ i. is_open job.hours i ≡ true) here (open_aisle job r m)

-- so a shut aisle holds nothing listed
pub shut_holds_nothing : (job : Job) (j : ℕ) → is_open job.hours j ≡ false → holds_listed job j ≡ false
shut_holds_nothing job j shut = go (holds_listed job j) refl
  where
    go : (b : Bool) → holds_listed job j ≡ b → holds_listed job j ≡ false
    go true e = absurd (true≢false (sym (holding_open job j e) ∙ shut))
    go false e = e
