-- The laws of a measured table.
pub mod MeasureLaws
pub mod CountLaws
