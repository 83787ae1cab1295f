-- What becomes of a job before its sheet is tried.
use Rattle.std.specs.Prelude.{ℕ, ◌≤◌, ◌<◌, ◌≡◌, ◌⊎◌, List, length, replicate}
use Rattle.rules.specs.declared.Refusal.{Refusal}
use Rattle.rules.specs.declared.Refusal.TheVariants.{WorkArea}
use Rattle.rules.specs.Refusals.{good, bad, check_bytes, work_limit}
use Rattle.values.specs.Values.{job_of}
use Rattle.finishing.specs.declared.RoutedJob.{RoutedJob}

-- the work area suffices, and the routed job is what the job bytes come to: the work area is then all zero
pub record Routes (bytes : List ℕ) (routed : RoutedJob) (before after : List ℕ) : Type 0 where
  pub space : work_limit ≤ length before
  pub checked : good (job_of routed.job) ≡ check_bytes bytes
  pub cleared : after ≡ replicate (length before) 0

-- refused: with 10 where the work area does not suffice, or else with what the job bytes come to; the work area is as it was
pub record Stops (bytes : List ℕ) (cause : Refusal) (before after : List ℕ) : Type 0 where
  pub found : ((cause ≡ WorkArea) × (length before < work_limit)) ⊎ ((bad cause ≡ check_bytes bytes) × (work_limit ≤ length before))
  pub kept : after ≡ before
