pub mod Owed
pub mod Tests
pub mod PartNames
pub mod DealtNames
pub mod DealtPlans
pub mod DealtViews
pub mod DealtQuestions
