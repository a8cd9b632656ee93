pub mod Trues
pub mod SlotLaws
pub mod NamingLaws
pub mod Admitted
