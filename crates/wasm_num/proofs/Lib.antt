mod BitLaws
mod ByteLaws
mod CountLaws
mod SignLaws
mod SumLaws
mod TurnLaws
mod WidthLaws
