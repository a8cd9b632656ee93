pub mod Choices
pub mod Queues
pub mod Slots
pub mod Naming
pub mod Passives
