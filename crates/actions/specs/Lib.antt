-- How the state of a run stands for a state of the rules, and what each action promises of that.
pub mod Guards
pub mod Board
pub mod Shows
pub mod Marks
pub mod Stands
pub mod Acts
pub mod Control
