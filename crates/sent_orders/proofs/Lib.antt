pub mod Due
pub mod Fourth
