-- What the call from C promises.
pub mod Call
pub mod CallLaws
