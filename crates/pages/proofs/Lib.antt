-- Laws of the page's lines and their writers.
pub mod PageLines
