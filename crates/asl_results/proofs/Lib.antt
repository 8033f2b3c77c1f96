mod Counts
mod Digits
mod Suites
mod WrittenFields
