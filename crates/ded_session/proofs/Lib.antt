mod Accepted
mod AcceptedRuns
mod Asking
pub mod Bounding
mod Carried
mod Calls
mod Formed
mod FormedSteps
pub mod HeaderSteps
mod InsertedTuples
pub mod KnownAlike
mod Languages
pub mod Making
pub mod Pairs
pub mod PlainNames
pub mod PlainSpelling
pub mod OneBounds
pub mod OneCatalogue
pub mod OneList
pub mod StepLemmas
pub mod Telling
pub mod ToldPlans
mod Upheld
mod Histories
pub mod WideQuestions
