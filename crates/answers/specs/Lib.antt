pub mod Answers
pub mod Mistaken
pub mod MistakenLaws
pub mod Requests
pub mod Times
