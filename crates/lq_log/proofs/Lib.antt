pub mod PathLaws
pub mod RaceLaws
pub mod SeenLaws
pub mod ForkLaws
pub mod NoteLaws
pub mod KeyLaws
pub mod RaceOrNone
