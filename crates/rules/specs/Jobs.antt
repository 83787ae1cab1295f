-- A job: what one job file says. Its numbers are within the bounds only if no refusal applies (Refusals).
use Rattle.std.specs.Prelude.{ℕ, List, [], ◌∷◌, Bool, true, false, ◌&&◌, eqb}
use Rattle.rules.specs.declared.Posts.{Posts}
use Rattle.rules.specs.declared.Layout.{Layout}
use Rattle.rules.specs.declared.Policy.{Policy}
use Rattle.rules.specs.declared.StockRecord.{StockRecord}
use Rattle.rules.specs.declared.OrderLine.{OrderLine}
use Rattle.rules.specs.Lists.{any_of, select}
use Rattle.rules.specs.Store.{with_posts}
use Rattle.rules.specs.Hours.{Hours, is_open}

pub record Job : Type 0 where
  pub layout : Layout
  pub policy : Policy
  pub stock : List StockRecord
  pub hours : Hours
  pub lines : List OrderLine

-- the job in the same store with other posts
abbrev pub job_with_posts : Posts → Job → Job
job_with_posts posts job =
    record { layout = with_posts posts job.layout; policy = job.policy; stock = job.stock; hours = job.hours; lines = job.lines }

-- the job under another policy
abbrev pub job_under : Policy → Job → Job
job_under policy job =
    record { layout = job.layout; policy = policy; stock = job.stock; hours = job.hours; lines = job.lines }

-- the job with other stock records
abbrev pub job_with_stock : List StockRecord → Job → Job
job_with_stock stock job =
    record { layout = job.layout; policy = job.policy; stock = stock; hours = job.hours; lines = job.lines }

-- the job with other hours
abbrev pub job_with_hours : Hours → Job → Job
job_with_hours hours job =
    record { layout = job.layout; policy = job.policy; stock = job.stock; hours = hours; lines = job.lines }

-- the stock that counts: the records of open aisles. That of shut aisles counts for nothing (#106)
abbrev pub open_stock : Job → List StockRecord
open_stock job = select (λ (r : StockRecord). is_open job.hours r.aisle) job.stock

-- an empty list: it has no line, and there is nothing to fetch
abbrev pub empty_list : List OrderLine → Bool
empty_list [] = true
empty_list (l ∷ lines) = false

-- the article stands on a line of the list
unfoldable pub listed : Job → ℕ → Bool
listed job a = any_of (λ (l : OrderLine). eqb l.article a) job.lines

-- the aisle holds an article of the list: some record of the aisle that counts has a listed article
unfoldable pub holds_listed : Job → ℕ → Bool
holds_listed job j = any_of (λ (r : StockRecord). eqb r.aisle j && listed job r.article) (open_stock job)

-- the cell c of aisle j holds an article of the list
unfoldable pub cell_holds_listed : Job → ℕ → ℕ → Bool
cell_holds_listed job j c =
    any_of (λ (r : StockRecord). eqb r.aisle j && eqb r.cell c && listed job r.article) (open_stock job)
