-- What private functions ensure: parts by number, and workers before and after they draw.
pub mod Slots
pub mod Crew
