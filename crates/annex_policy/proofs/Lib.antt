-- Laws of a policy's rules.
pub mod AllowedLaws
mod KindLaws
mod MiddleLaws
mod NotedLaws
mod RowLaws
mod RuleLaws
mod TraversalLaws
