pub mod TimesOf
