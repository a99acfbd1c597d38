mod Bound
mod Building
mod FirstWrong
mod Keys
mod Leading
mod Placed
mod Replacing
