mod Definitions
mod Gaining
mod Inners
mod Numbers
mod Tops
