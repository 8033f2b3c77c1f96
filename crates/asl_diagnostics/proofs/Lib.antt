mod PlaceOrder
mod WrittenFields
