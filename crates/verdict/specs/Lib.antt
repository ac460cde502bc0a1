-- The verdict and the values of a scheme, and the theorems on them.
pub mod Verdict
pub mod Truth
pub mod Witness
pub mod VerdictLaws
pub mod Value
pub mod Size
pub mod ValueLaws
pub mod SingleLaws
pub mod ListedCountLaws
