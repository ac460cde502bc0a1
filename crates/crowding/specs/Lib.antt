-- The definitions of the crate crowding, and then its laws.
pub mod Crowding
pub mod Followers
pub mod MonotoneLaws
pub mod ErdosSzekeres
pub mod CountLaws
pub mod CrowdingLaws
