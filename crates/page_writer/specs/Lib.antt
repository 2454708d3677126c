pub mod Texts
pub mod PlanPage
pub mod TablePage
pub mod AnswerLines
