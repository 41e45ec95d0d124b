pub mod SealLaws
