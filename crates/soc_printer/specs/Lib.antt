pub mod SocText
