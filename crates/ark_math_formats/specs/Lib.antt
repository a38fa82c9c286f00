-- How values are spelled in bytes, and where reading stops.
pub mod Format
