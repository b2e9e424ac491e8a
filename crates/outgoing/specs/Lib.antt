pub mod Seen
pub use Rattle.mapdlg.specs.Accepting
pub mod Spelled
