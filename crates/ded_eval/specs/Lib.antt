pub mod Finding
pub mod Inside
pub mod Joining
pub mod OrderPlans
pub mod Within
