pub mod TypeLaws
pub mod NodeLaws
pub mod FormLaws
pub mod LimitLaws
pub mod worked
