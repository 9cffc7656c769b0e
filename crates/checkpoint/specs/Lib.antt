pub mod Mark
pub mod Members
