-- Laws of the search: keeping the first of the best, the tests of one plan, one plan more, and what is asked of a job.
mod Kept
mod PassLaws
mod SearchLaws
mod BestLaws
