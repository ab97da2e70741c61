mod Undone
mod Rising
mod Rebuilt
mod Cut
mod First
