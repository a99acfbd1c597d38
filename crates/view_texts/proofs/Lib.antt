mod Joined
mod RunTexts
