pub mod Heights
pub mod Widest
pub mod Reaching
pub mod First
pub mod Wide
pub mod Laws
pub mod Few
