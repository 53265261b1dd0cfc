pub mod Before
pub mod Cut
pub mod Forget
pub mod Located
pub mod Mapping
pub mod SoundTokens
pub mod Terms
pub mod Valid
