-- What a worth is refused for, and the answer.
pub mod Judged
