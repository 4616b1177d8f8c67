pub mod Choice
pub mod Field
pub mod Finding
pub mod Row
pub mod Rule
pub mod Why
