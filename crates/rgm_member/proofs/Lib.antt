mod Kept
mod OrderLaws
mod Reports
