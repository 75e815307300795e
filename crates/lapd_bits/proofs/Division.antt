-- The long division in a register: one octet and more at a time, by tables.
pub mod Feeding
pub mod Word
pub mod Holds
pub mod Tables
