mod EntryLines
mod Places
mod Traces
