-- That the actions that tests run are lawful.
pub mod StayingLaws
pub mod ErrandRecords
pub mod ErrandLaws
