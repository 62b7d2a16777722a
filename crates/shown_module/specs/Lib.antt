pub mod Shown
pub mod ShownNet
