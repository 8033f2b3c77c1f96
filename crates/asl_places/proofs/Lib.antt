mod Gathering
mod Machines
mod Names
mod Reading
mod Steps
mod Walks
