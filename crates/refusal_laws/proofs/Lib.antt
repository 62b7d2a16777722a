pub mod OneStop
pub mod OneFault
